-- Document 01's marked examples, by computing.
use mathlib.Core.Path.{refl}
use lib.Count.{count_trailing_zeros}
use Rattle.blockfile.specs.Layout.{lens_start, entry_end, reached}
use Rattle.blockfile.specs.Put.{parts, new_height}
use Rattle.blockfile.specs.Marked.{MarkedExamples}

pub marked : MarkedExamples
unfolding MarkedExamples lens_start entry_end reached new_height count_trailing_zeros parts
marked = refl
