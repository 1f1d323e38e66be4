-- The Reject, or nothing.
use Rattle.apdu.specs.Problem.{kind_octet}
use Rattle.std.proofs.Common.{ℕ, subst, arith, ◌∷◌, []}
use mathlib.Core.List.{append-nil}
use Rattle.apdu.proofs.SizeLaws.{reject_most}
use Rattle.apdu.specs.Encode.{encode_reject, WrittenWhole}
use Rattle.protocol.specs.Reading.{read_refusal}
use Rattle.rose.proofs.Written.{writes_nothing, writes_one}
use Rattle.rose.proofs.ReceiveLaws.{no_reject}
use Rattle.rose.proofs.receiving.write_refusal.Goals as goal

pub returns-in-Rejected : goal.returns-in-Rejected
unfolding read_refusal
returns-in-Rejected c =
    let x = encode_reject c.in-Rejected.id (kind_octet c.in-Rejected.kind) c.in-Rejected.problem in
    rw c.in-Rejected.is
    (writes_one _ (x ∷ []) x (append-nil x) (omega (arith, reject_most c.in-Rejected.id (kind_octet c.in-Rejected.kind) c.in-Rejected.problem)) _ _ (subst (λ (k : ℕ). WrittenWhole c.args.out.now (encode_reject c.in-Rejected.id k c.in-Rejected.problem) c.write_reject.new.out c.write_reject.result) c.into.ensures c.write_reject.ensures))

pub returns-in_default : goal.returns-in_default
returns-in_default c = writes_nothing _ _ (no_reject c.args.why c.in_default.not-Rejected)
