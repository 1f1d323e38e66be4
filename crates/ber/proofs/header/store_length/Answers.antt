-- In the long form the count of octets stands before them.
use Rattle.std.proofs.Common.{◌+◌, length-set, arith}
use Rattle.ber.proofs.LengthLaws.{length_long_size}
use Rattle.ber.proofs.header.store_length.Goals as goal

pub store_digits-requires-clause-room : goal.store_digits-requires-clause-room
store_digits-requires-clause-room c =
    omega (arith, length_long_size c.args.n (omega arith), length-set c.args.out.now c.args.at (0x80 + c.length_count-count.result))
