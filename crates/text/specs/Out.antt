-- What was put out: the text of a writer, and what is kept behind it.
use Rattle.std.specs.Prelude.{◌≡◌, ◌+◌, ◌-◌, ◌<◌, ◌≤◌, List, [], ◌∷◌, ◌++◌, ℕ, Bool, true, length, slice_index}
use Rattle.std.specs.Io.KnownBytes.{Appends, append_known}
use Rattle.std.specs.declared.option.Option.{Option}

-- what the writer holds, where that is known, the text that it is still to be given, and whether nothing was lost: no law says when a writer fails, so
-- none says when this becomes false where the writer is given something
pub record Put : Type 0 where
  pub held : Option (List ℕ)
  pub kept : List ℕ
  pub whole : Bool

-- the text so far, where it is known what the writer holds
abbrev pub text_of : Put → Option (List ℕ)
text_of p = append_known p.held p.kept

-- s was put out behind what was put out before, as long as the writer took all that it was given
abbrev pub Adds : Put → List ℕ → Put → Type 0
Adds before s after = after.whole ≡ true → (before.whole ≡ true) × Appends (text_of before) (text_of after) s

-- the same of words of the library's own choice
pub record AddsWords (before after : Put) : Type 0 where
  pub words : List ℕ
  pub added : Adds before words after

-- what, a colon and words were put out, and a line end
pub record AddsLine (before : Put) (what : List ℕ) (after : Put) : Type 0 where
  pub words : List ℕ
  pub added : Adds before (((what ++ (58 ∷ 32 ∷ [])) ++ words) ++ (10 ∷ [])) after

-- the last octet of s is a line end
abbrev pub EndsLine : List ℕ → Type 0
EndsLine s = (0 < length s) × (slice_index s (length s - 1) ≡ 10)

-- there is room for s behind what is kept
abbrev pub Fits : Put → List ℕ → Type 0
Fits p s = length p.kept + length s ≤ 4096

-- s is kept, and the writer is given nothing
abbrev pub kept_behind : Put → List ℕ → Put
kept_behind p s = record { held = p.held; kept = p.kept ++ s; whole = p.whole }
