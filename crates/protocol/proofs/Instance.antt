-- The theorem speaks of two runs of Witness.antt, one of them with names, and of one of Fetching.antt: its premises hold of them.
use mathlib.Core.Path.{refl}
use Rattle.optable.specs.Lookup.{Extends}
use Rattle.protocol.specs.ShownWasGiven.{Conclusion}
use Rattle.protocol.proofs.Theorem.{shown_was_given}
use Rattle.protocol.proofs.WitnessTables.{table_o, table_n, table_g, table_h, table_f}
use Rattle.protocol.proofs.Witness.{good, named}
use Rattle.protocol.proofs.Fetching.{fetching}
use Rattle.protocol.proofs.Computed.{computed}

conclusion : Conclusion table_o table_n good
conclusion = shown_was_given table_o table_n computed.old_valid computed.new_valid computed.extends good computed.fair computed.once

conclusion_named : Conclusion table_g table_h named
conclusion_named = shown_was_given table_g table_h computed.old_named computed.new_named computed.extends_named named computed.fair_named computed.once_named

-- a table extends itself
itself : Extends table_f table_f
itself = record { operations = λ c h. refl; errors = λ e h. refl; pairs = λ c e h. h; children = λ c d h. h }

conclusion_fetching : Conclusion table_f table_f fetching
conclusion_fetching = shown_was_given table_f table_f computed.valid_fetching computed.valid_fetching itself fetching computed.fair_fetching computed.once_fetching
