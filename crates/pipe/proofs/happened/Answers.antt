use Rattle.state.proofs.SoundLaws.{sound_yes, restarted_sound}
use Rattle.weighing.specs.SampleLaws.{sampled_sound}
use Rattle.pipe.proofs.happened.Goals as goal

pub invariant_of-take_sample : goal.invariant_of-take_sample
invariant_of-take_sample c = record { ranged = (sound_yes c.args.u c.requires).0 }

pub returns-in-Some-Sample-clause-sound : goal.returns-in-Some-Sample-clause-sound
returns-in-Some-Sample-clause-sound c = rw c.take_sample.ensures (sampled_sound _ _ _ c.requires)

pub returns-in-Some-Restart-clause-sound : goal.returns-in-Some-Restart-clause-sound
returns-in-Some-Restart-clause-sound c = rw c.restart.ensures (restarted_sound _ c.requires)
