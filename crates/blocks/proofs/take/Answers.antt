use Rattle.wire.specs.WireLaws.{block_sound}
use Rattle.blocks.proofs.take.Goals as goal

pub invariant_of-result : goal.invariant_of-result
invariant_of-result g c = record { sound = rw c.take-t.ensures.taken (block_sound _ _ _ c.args.sound.sound) }
