use Rattle.job_slots.proofs.Shown.{alone}
use Rattle.job_slots.proofs.laws.shown_is_alone.Goals as goal

pub returns : goal.returns
returns c number blocks task slot tidy shows =
    alone c.reached.ensures c.each_ends.ensures shows.verified.0 number blocks task shows.verified.1 tidy slot.trace
    slot.outcome slot.status shows.shown
