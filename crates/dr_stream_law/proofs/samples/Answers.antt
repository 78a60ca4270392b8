use Rattle.dr_stream_law.proofs.Written.{empty_loads, painted_loads, zero_loads, old_says_nothing, miscounted_says_nothing}
use Rattle.dr_stream_law.proofs.samples.Goals as goal

pub returns : goal.returns
returns c = record { empty = empty_loads; painted = painted_loads; zero = zero_loads; old = old_says_nothing; miscounted = miscounted_says_nothing }
