-- What receive answers itself: 'Probe and acknowledge'. The id that an argument is about, the results, and which answers are kept.
use Rattle.std.specs.Prelude.{ℕ, Bool, true, cond, not, ◌&&◌, List, [], ◌∷◌, Option, Some, None}
use Rattle.codes.specs.declared.Code.{Code}
use Rattle.records.specs.Held.{Held, kept_answers}
use Rattle.records.specs.Kept.{is_kept, kept_apdu}
use Rattle.records.specs.Records.{member}
use Rattle.optable.specs.declared.Service.{Service}
use Rattle.optable.specs.declared.Service.TheVariants.{Probe, Acknowledge, Ordinary}
use Rattle.optable.specs.Service.{probe_code, acknowledge_code, service_of, answers_itself}
use Rattle.optable.specs.Lookup.{idempotent_of}
use Rattle.apdu.specs.Inside.{inside, id_in}
use Rattle.apdu.specs.Encode.{encode_result}
use Rattle.protocol.specs.Check.{peer_records, is_linked}

-- ---- arguments

-- probe carries 30 holding A0 holding the id, acknowledge the id
unfoldable pub about_in : Service → List ℕ → Option ℕ
about_in Probe v = id_in (inside 0xA0 (inside 0x30 v))
about_in Acknowledge v = id_in v
about_in Ordinary v = None

-- the id that the argument is about
unfoldable pub about : Service → Option (List ℕ) → Option ℕ
about q None = None
about q (Some v) = about_in q v

-- the inside of an argument is right: anything else than an id where one must stand is wrong
abbrev pub inside_right : Service → Option (List ℕ) → Bool
inside_right Probe v = is_linked (about Probe v)
inside_right Acknowledge v = is_linked (about Acknowledge v)
inside_right Ordinary v = true

-- ---- results

-- ENUMERATED
abbrev pub enumerated : ℕ → List ℕ
enumerated n = 0x0A ∷ 0x01 ∷ n ∷ []

-- the result that receive writes
unfoldable pub reply : ℕ → Code → ℕ → List ℕ
reply i c n = encode_result i c (Some (enumerated n))

-- to a probe i about j: running 0 for a live peer record, finished 1 for a kept answer and behind it the kept APDU, else unknown 2
unfoldable pub probed : Held → ℕ → ℕ → List (List ℕ)
probed s i j =
    cond (member j (peer_records s)) (reply i probe_code 0 ∷ [])
    (cond (is_kept j (kept_answers s)) (reply i probe_code 1 ∷ kept_apdu j (kept_answers s) ∷ []) (reply i probe_code 2 ∷ []))

-- to an acknowledge i about j: 0 where a kept answer is dropped, else 1
unfoldable pub acknowledged : Held → ℕ → ℕ → List (List ℕ)
acknowledged s i j = reply i acknowledge_code (cond (is_kept j (kept_answers s)) 0 1) ∷ []

-- ---- which answers are kept

-- those to operations that are not idempotent; those to probe and acknowledge are not
unfoldable pub keeps_answers : List ℕ → Code → Bool
keeps_answers T c = not (idempotent_of T c) && not (answers_itself (service_of c))
