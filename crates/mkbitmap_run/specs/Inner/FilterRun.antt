-- How a run ends if a part of the page can't be read.
use Rattle.bitmap_input.specs.Reading.{Cause}
use Rattle.bitmap_input.specs.Reading.Cause.{Says, Device, Memory}
use Rattle.run_output.specs.declared.status.Status.{Status}
use Rattle.run_output.specs.declared.status.Status.TheVariants as status

-- how a run ends if a part of the page can't be read, by the cause
abbrev pub cause_ending : Cause → Status
cause_ending (Says why) = status.Refused
cause_ending Device = status.Unread
cause_ending Memory = status.OutOfMemory
