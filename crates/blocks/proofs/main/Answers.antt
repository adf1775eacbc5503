use Rattle.state.proofs.SoundLaws.{new_sound}
use Rattle.blocks.proofs.main.Goals as goal

pub invariant_of-start : goal.invariant_of-start
invariant_of-start c = record { sound = rw c.new.ensures new_sound }
