-- The number at the end is the one that the digits make: what is left decides, and three digits at most leave room for one more.
use Rattle.std.proofs.Common.{◌≡◌, ◌*◌, ◌<◌, ◌^◌, drop}
use Rattle.ber.specs.Header.{number_from}
use Rattle.ber.proofs.header.number.Given as goal

abbrev pub invariant-loop-b : goal.invariant-loop-b
invariant-loop-b l = record {
  bound : l.n < 2 ^ 32 * 2 ^ (8 * l.b-index);
  left : number_from l.base l.start l.s ≡ number_from l.base l.n (drop l.b-index l.s);
}
