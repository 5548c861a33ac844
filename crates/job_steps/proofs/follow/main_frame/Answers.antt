use Rattle.job_steps.proofs.follow.main_frame.Goals as goal

pub unwrap-requires : goal.unwrap-requires
unwrap-requires g c = cc
