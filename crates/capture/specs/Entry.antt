-- What an entry says: its kind and its octets. Where there is no entry of that number it has no kind and no octets.
use Rattle.std.specs.Prelude.{ℕ, ◌+◌, cond, List, eqb, ltb, get_or, Option, Some, None}
use Rattle.base.specs.Octets.{part, u32}
use Rattle.capture.specs.Format.{count, kind, size, offset}
use Rattle.capture.specs.declared.kind.Kind.{Kind}
use Rattle.capture.specs.declared.Entry.{Entry}
use Rattle.capture.specs.declared.kind.Kind.TheVariants.{Received, Sent, Forget}
use Rattle.capture.specs.declared.side.Side.{Side}
use Rattle.capture.specs.declared.side.Side.TheVariants.{Own, Peer, Other}

-- kinds by their octet: 0 received, 1 sent, 2 forget
abbrev pub kind_of : ℕ → Option Kind
kind_of n = cond (eqb n 0) (Some Received) (cond (eqb n 1) (Some Sent) (cond (eqb n 2) (Some Forget) None))

-- entry i, its octets by their places in the capture
unfoldable pub entry_at : List ℕ → ℕ → Entry
entry_at t i = cond (ltb i (count t)) (record { kind = kind_of (kind t i); at = offset t i; end = offset t i + size t i }) (record { kind = None; at = 0; end = 0 })

abbrev pub kind_at : List ℕ → ℕ → Option Kind
kind_at t i = (entry_at t i).kind

abbrev pub octets_at : List ℕ → ℕ → List ℕ
octets_at t i = part t (entry_at t i).at (entry_at t i).end

-- the number behind i, where there is an entry i
unfoldable pub following : List ℕ → ℕ → ℕ
following t i = cond (ltb i (count t)) (i + 1) i

-- sides by their octet: 0 own, 1 peer
abbrev pub side_by : ℕ → Side
side_by n = cond (eqb n 0) Own (cond (eqb n 1) Peer (Other n))

-- a forget's octets: side, then id
abbrev pub side_of : List ℕ → Side
side_of x = side_by (get_or x 0 0)

abbrev pub id_of : List ℕ → ℕ
id_of x = u32 x 1
