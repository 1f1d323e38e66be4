-- The kept answers, this end's last ones to what the peer invoked: docs/RULES.md, 'Kept answers'. What keeping and dropping mean is said of their list, oldest first.
use Rattle.std.specs.Prelude.{ℕ, ◌-◌, ◌*◌, Bool, not, ◌&&◌, List, [], ◌∷◌, ◌++◌, Option, map, filter, position, length, take, drop, replicate, ◌==◌, nat_le, if◌then◌else◌}
use Rattle.std.specs.List.{list_all}
use Rattle.records.specs.declared.Record.{Record}
use Rattle.records.specs.declared.KeptPlace.{KeptPlace}
use Rattle.records.specs.declared.Kept.{Kept}
use Rattle.records.specs.Limits.{answers, answer_octets, store_octets}
use Rattle.records.specs.Numbers.{among, each_once, none_among, all_zero}
use Rattle.records.specs.Records.{ids_of}

-- an answer that was given, the APDU under its invocation's id
pub record KeptAnswer : Type 0 where
  pub id : ℕ
  pub apdu : List ℕ

-- ---- their list

abbrev pub answer_ids : List KeptAnswer → List ℕ
answer_ids l = map (λ k. k.id) l

-- the id has a kept answer
abbrev pub is_kept : ℕ → List KeptAnswer → Bool
is_kept i l = among i (answer_ids l)

-- the kept APDU of the id, no octets where there is none
abbrev pub kept_apdu : ℕ → List KeptAnswer → List ℕ
kept_apdu i [] = []
kept_apdu i (k ∷ l) = if k.id == i then k.apdu else kept_apdu i l

-- a dropped answer closes the gap, order kept
abbrev pub kept_without : ℕ → List KeptAnswer → List KeptAnswer
kept_without i l = filter (λ k. not (k.id == i)) l

-- where eight are kept the oldest makes room
abbrev pub with_room : List KeptAnswer → List KeptAnswer
with_room l = if nat_le answers (length l) then drop 1 l else l

-- a new answer goes last; one of over 512 octets is not kept, and then none makes room
unfoldable pub keeping : List KeptAnswer → KeptAnswer → List KeptAnswer
keeping l k = if nat_le (length k.apdu) answer_octets then with_room l ++ k ∷ [] else l

-- ---- the list in the state and in the store: ids and lengths in the one, 512 octets for each answer in the other

-- the places below the count
abbrev pub kept_places : Kept → List KeptPlace
kept_places k = take k.count k.places

abbrev pub place_ids : List KeptPlace → List ℕ
place_ids l = map (λ p. p.id) l

-- an unused place is 0
abbrev pub no_answer : KeptPlace
no_answer = record { id = 0; length = 0 }

abbrev pub is_free : KeptPlace → Bool
is_free p = p.id == 0 && p.length == 0

-- each place has the next 512 octets of the store
abbrev pub answers_in : List KeptPlace → List ℕ → List KeptAnswer
answers_in [] store = []
answers_in (p ∷ l) store = record { id = p.id; apdu = take p.length store } ∷ answers_in l (drop answer_octets store)

-- the kept answers, oldest first
unfoldable pub view_kept : Kept → List ℕ → List KeptAnswer
view_kept k store = answers_in (kept_places k) store

-- the place of an answer: its id, and how many octets it has
abbrev pub place_for : KeptAnswer → KeptPlace
place_for k = record { id = k.id; length = length k.apdu }

-- the places of these answers, every one behind them 0
unfoldable pub pack_kept : List KeptAnswer → Kept
pack_kept l = record { count = length l; places = map place_for l ++ replicate (answers - length l) no_answer }

-- an answer and zeros, 512 octets together
abbrev pub block : KeptAnswer → List ℕ
block k = k.apdu ++ replicate (answer_octets - length k.apdu) 0

abbrev pub blocks : List KeptAnswer → List ℕ
blocks [] = []
blocks (k ∷ l) = block k ++ blocks l

-- the store of these answers, every octet behind them 0
unfoldable pub pack_store : List KeptAnswer → List ℕ
pack_store l = blocks l ++ replicate (answer_octets * (answers - length l)) 0

-- where the id's answer stands, if there is one
abbrev pub answer_place : ℕ → Kept → Option ℕ
answer_place i k = position (λ p. p.id == i) (kept_places k)

-- ---- sound kept answers

-- each length is at most 512
abbrev pub all_short : List KeptPlace → Bool
all_short l = list_all (λ p. nat_le p.length answer_octets) l

-- unused octets are 0: those behind a length, and all behind the last answer
abbrev pub clear_behind : List KeptPlace → List ℕ → Bool
clear_behind [] store = all_zero store
clear_behind (p ∷ l) store = all_zero (drop p.length (take answer_octets store)) && clear_behind l (drop answer_octets store)

-- kept answers are sound beside the live peer records: a store of 4,096 octets, at most 8, no id twice, none among those records, lengths at most 512,
-- unused places and octets 0; what the octets are is not asked
unfoldable pub sound_kept : List Record → Kept → List ℕ → Bool
sound_kept peers k store =
    length store == store_octets
    && (nat_le k.count answers
    && (each_once (place_ids (kept_places k))
    && (none_among (place_ids (kept_places k)) (ids_of peers)
    && (all_short (kept_places k)
    && (list_all is_free (drop k.count k.places)
    && clear_behind (kept_places k) store)))))
