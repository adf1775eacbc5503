-- The closed runs hold: each side computes. Assumes nothing.
use mathlib.Core.Path.{refl}
use Rattle.whole.specs.Round.{round_nat, round_div}
use Rattle.line.specs.Line.{ends_of, drops_of, quoted_of, counted_of, moved_of, stored_of}
use Rattle.line.specs.Names.{same_of}
use Rattle.line.specs.Shape.{all_of, is_letter, fold_of, is_digit, value_from, digits_of, signed_of, number_of, is_plain, text_of, param_of, command_of, shape_of}
use Rattle.weight.specs.Weight.{corrected, tenths, less, gross, net, in_tenths}
use Rattle.weight.specs.Display.{place_by, highest, lowest, two_of}
use Rattle.weight.specs.Sets.{spans}
use Rattle.weight.specs.Zero.{within_share, first_zero, tracks, moved, tracked}
use Rattle.reply.specs.Reply.{places_of, twos, digits_text, blank_text, pair_text, signed_text, status_text, word4_text, word2_text}
use Rattle.weighing.specs.Reading.{v_now, gross_now}
use Rattle.weighing.specs.Samples.{first_now, tracked_now}
use Rattle.plans.specs.Plans.{word_of, same_word}
use Rattle.plans.specs.Queries.{status_of, msv_text}
use Rattle.plans.specs.Obey.{judge, obey_of}
use Rattle.serving.specs.Step.{step_next, step_text}
use Rattle.plans.specs.Kinds.{is_refusal}
use Rattle.demands.specs.Host.{after, replies}
use Rattle.demands.specs.History.{changes, last_saved}
use Rattle.demands.specs.Runs.{Runs}

pub runs : Runs
unfolding round_nat round_div ends_of drops_of quoted_of counted_of moved_of stored_of same_of all_of is_letter fold_of is_digit value_from digits_of signed_of number_of is_plain text_of param_of command_of shape_of corrected tenths less gross net in_tenths place_by highest lowest two_of spans within_share first_zero tracks moved tracked places_of twos digits_text blank_text pair_text signed_text status_text word4_text word2_text v_now gross_now first_now tracked_now word_of same_word status_of msv_text judge obey_of step_next step_text is_refusal changes last_saved after replies
runs =
    record { sealed_first = refl; sealed_later = refl; sealed_counter_first = refl; sealed_counter_later = refl; sealed_nov = refl; sealed_restarted = refl; lost_by_res = refl; lost_by_power = refl; lost_said = refl; kept = refl; kept_said = refl; tare_lost = refl; nov_locked = refl; locked = refl; first_zero_lem = refl; tracked_once = refl; net_shown = refl; counted = refl; counter = refl; counter_said = refl }
