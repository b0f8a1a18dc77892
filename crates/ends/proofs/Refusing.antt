-- No refusal of a block is the one of a call that comes too early in time. Assumes nothing.
use Rattle.std.proofs.Common.{eqb}
use Rattle.blocks.specs.declared.fault.BlockFault.{BlockFault}
use Rattle.blocks.specs.declared.fault.BlockFault.TheVariants.{Buffer, Length, Parity, Delimiter, Check, Head, Rest}
use Rattle.blocks.specs.Reading.{pick}
use Rattle.blocks.specs.Faults as block

pub not_late : (x : BlockFault) (P Q : Type 0) → Q → pick (eqb (block.number_of x) 14) P Q
not_late Buffer P Q q = q
not_late (Length k) P Q q = q
not_late (Parity k) P Q q = q
not_late (Delimiter k) P Q q = q
not_late (Check k) P Q q = q
not_late (Head k) P Q q = q
not_late (Rest k) P Q q = q
