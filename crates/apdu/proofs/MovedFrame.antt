-- A frame that was found in a part of the octets, and moved: where it was found, and that its places fit.
use Rattle.std.specs.Prelude.{Option, Some, None}
use Prim.Native.Nat.{ℕ, ◌+◌, ◌≤◌}
use mathlib.Core.Path.{◌≡◌, refl, sym, ap, ◌∙◌}
use mathlib.Core.List.{List}
use native.Mathlib.Omega.{arith}
use lib.ListN.{length}
use Rattle.base.proofs.PartLaws.{part_length}
use Rattle.base.specs.Octets.{part}
use Rattle.ber.specs.declared.header.Header.{Header}
use Rattle.ber.specs.declared.header.Header.TheVariants.{At, Open}
use Rattle.ber.specs.declared.element.Frame.{Frame}
use Rattle.ber.specs.Header.{header_of}
use Rattle.ber.proofs.HeaderLaws.{Bounds, header_bounds}
use Rattle.ber.proofs.FrameLaws.{some_is, frame_bounds}
use Rattle.apdu.specs.Steps.{definite_frame, moved_frame}
use Rattle.ber.specs.Element.{frame, frame_of}

-- f before it was moved by at
pub record Found (at : ℕ) (f : Option Frame) (id a e : ℕ) : Type 0 where
  pub start : ℕ
  pub stop : ℕ
  pub found : f ≡ Some (frame id start stop)
  pub starts : at + start ≡ a
  pub ends : at + stop ≡ e

pub moved_from : (at : ℕ) (f : Option Frame) (id a e : ℕ) → moved_frame at f ≡ Some (frame id a e) → Found at f id a e
unfolding moved_frame
moved_from at None id a e x = let z : ◌≡◌ {A = ℕ} 0 1 = cc in absurd (omega arith)
moved_from at (Some f) id a e x =
    let q = some_is {f = frame f.id (at + f.start) (at + f.stop)} {g = frame id a e} x in
    record {
      start = f.start;
      stop = f.stop;
      found = ap (λ (y : ℕ). Some (frame y f.start f.stop)) (ap (λ (y : Frame). y.id) q);
      starts = ap (λ (y : Frame). y.start) q;
      ends = ap (λ (y : Frame). y.stop) q;
    }

pub moved_none : (at : ℕ) (f : Option Frame) → moved_frame at f ≡ None → f ≡ None
unfolding moved_frame
moved_none at None x = refl
moved_none at (Some f) x = let z : ◌≡◌ {A = ℕ} 0 1 = cc in absurd (omega arith)

pub definite_header : (h : Option Header) (id a e : ℕ) → definite_frame h ≡ Some (frame id a e) → h ≡ Some (At id a e)
unfolding definite_frame
definite_header None id a e x = let z : ◌≡◌ {A = ℕ} 0 1 = cc in absurd (omega arith)
definite_header (Some (Open id' a')) id a e x = let z : ◌≡◌ {A = ℕ} 0 1 = cc in absurd (omega arith)
definite_header (Some (At id' a' e')) id a e x =
    let q = some_is {f = frame id' a' e'} {g = frame id a e} x in
    λ t. Some (At (q t).id (q t).start (q t).stop)

-- a frame within the part from at up to end stays within all octets
pub moved_within : (s : List ℕ) (at end id a e : ℕ) → Bounds (part s at end) id a e → (a ≤ e) × (at + e ≤ length s)
moved_within s at end id a e b = omega (arith, part_length s at end, b)

-- the first field of the part, and the one element that it is
pub field_fits : (s : List ℕ) (at end id a e : ℕ) (h : Option Header) → h ≡ header_of (part s at end) → h ≡ Some (At id a e) → (a ≤ e) × (at + e ≤ length s)
field_fits s at end id a e h q w = moved_within s at end id a e (header_bounds (part s at end) id a e (sym q ∙ w))

pub frame_fits : (s : List ℕ) (at end : ℕ) (f : Option Frame) (g : Frame) → f ≡ frame_of (part s at end) → f ≡ Some g → (g.start ≤ g.stop) × (at + g.stop ≤ length s)
frame_fits s at end f g q w = moved_within s at end g.id g.start g.stop (frame_bounds (part s at end) g.id g.start g.stop (sym q ∙ w))
