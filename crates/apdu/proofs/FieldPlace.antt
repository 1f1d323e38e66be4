-- A field's places are right: what it holds stands there in the lent octets, within them.
use Rattle.std.specs.Prelude.{Option, Some, None}
use Prim.Native.Nat.{ℕ, zero, suc, ◌-◌, ◌<◌, ◌≤◌}
use mathlib.Core.Path.{◌≡◌, refl, ap, ◌∙◌}
use mathlib.Core.List.{List, [], ◌∷◌}
use native.Mathlib.Omega.{arith}
use lib.ListN.{length, take, drop}
use lib.Seq.{length-take-le}
use Rattle.ber.specs.declared.element.Frame.{Frame}
use Rattle.ber.specs.Element.{size, frame_of}
use Rattle.base.specs.Octets.{part}
use Rattle.ber.proofs.HeaderLaws.{Bounds}
use Rattle.ber.proofs.ElementBounds.{element_bounds}
use Rattle.ber.proofs.FrameLaws.{frame_bounds}
use Rattle.apdu.specs.Field.{Part, part_inside, part_behind, Field, fields_with, fields_by, fields_in, fields}
use Rattle.base.proofs.PartLaws.{part_part, part_rest, part_length}

-- p is a part of the octets s
pub record Stands (s : List ℕ) (p : Part) : Type 0 where
  pub octets : p.octets ≡ part s p.at p.end
  pub ordered : p.at ≤ p.end
  pub within : p.end ≤ length s

abbrev pub AllStand : List ℕ → List Field → Type 0
AllStand s [] = Unit {0}
AllStand s (f ∷ fs) = Stands s f.contents × Stands s f.whole × AllStand s fs

module _ (s : List ℕ) (p : Part) (w : Stands s p) where
  inside_stands : (a e : ℕ) → a ≤ e → 0 < e → e ≤ length p.octets → Stands s (part_inside p a e)
  inside_stands a e o h k =
      let n = ap length w.octets in
      let m : e ≤ p.end - p.at = omega (arith, part_length s p.at p.end) in
      record {
        octets = ap (λ (l : List ℕ). part l a e) w.octets ∙ part_part s p.at p.end a e m;
        ordered = omega arith;
        within = omega (arith, part_length s p.at p.end);
      }

  behind_stands : (e : ℕ) → e ≤ length p.octets → Stands s (part_behind p e)
  behind_stands e h =
      let n = ap length w.octets in
      record {
        octets = ap (drop e) w.octets ∙ part_rest s p.at p.end e;
        ordered = omega (arith, w.ordered, part_length s p.at p.end);
        within = w.within;
      }

  stand_with : (rest : Part → List Field) (n : ℕ) → 0 < n → n ≤ length p.octets → AllStand s (rest (part_behind p n)) → (h : Option Frame) → frame_of (take n p.octets) ≡ h → AllStand s (fields_with rest p n h)
  unfolding fields_with
  stand_with rest n o k r None q = tt
  stand_with rest n o k r (Some f) q =
      let b : Bounds (take n p.octets) f.id f.start f.stop = frame_bounds (take n p.octets) f.id f.start f.stop q in
      let l : length (take n p.octets) ≡ n = length-take-le n p.octets k in
      (inside_stands f.start f.stop b.order (omega arith) (omega arith), inside_stands 0 n (omega arith) o k, r)

  stand_by : (d : ℕ) (rest : Part → List Field) → ((n : ℕ) → n ≤ length p.octets → AllStand s (rest (part_behind p n))) → (r : Option ℕ) → size d p.octets ≡ r → AllStand s (fields_by rest p r)
  unfolding fields_by
  stand_by d rest r None q = tt
  stand_by d rest r (Some n) q =
      let b = element_bounds d p.octets n q in stand_with rest n (omega arith) b.1 (r n b.1) (frame_of (take n p.octets)) refl

stand_in : (s : List ℕ) (d n : ℕ) (p : Part) → Stands s p → AllStand s (fields_in d n p)
unfolding fields_in
stand_in s d zero p w = tt
stand_in s d (suc n) p w = stand_by s p w d (fields_in d n) (λ e h. stand_in s d n (part_behind p e) (behind_stands s p w e h)) (size d p.octets) refl

pub fields_stand : (s : List ℕ) (d : ℕ) (p : Part) → Stands s p → AllStand s (fields d p)
fields_stand s d p w = stand_in s d (length p.octets) p w
