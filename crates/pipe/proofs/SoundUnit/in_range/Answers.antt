use Rattle.state.proofs.SoundLaws.{sound_yes}
use Rattle.pipe.proofs.SoundUnit.in_range.Goals as goal

pub invariant_of-result : goal.invariant_of-result
invariant_of-result c = record { ranged = (sound_yes c.args.self.unit c.args.self.sound).0 }
