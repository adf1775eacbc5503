-- What a line that is no command's does to the unit. Document 01, the paragraph on the bench program. What a reader must believe.
use Rattle.std.specs.Prelude.{Option, Some, None}
use Rattle.session.specs.declared.Event.{Event}
use Rattle.session.specs.declared.Event.TheVariants as event
use Rattle.state.specs.declared.Unit.{Unit as TheUnit}
use Rattle.state.specs.Changes.{restarted_of}
use Rattle.weighing.specs.Samples.{sample_of}

-- a sample is taken, a restart is done; a command goes to the unit byte by byte, and a line of no form leaves it
abbrev pub happened_of : TheUnit → Option Event → TheUnit
happened_of u None = u
happened_of u (Some event.Command) = u
happened_of u (Some (event.Sample x still)) = sample_of u x still
happened_of u (Some event.Restart) = restarted_of u
