-- What calls of a sink did to it, as far as contracts know the sink.
use Rattle.std.specs.Prelude.{ℕ, List, Result, Ok, Err}
use Rattle.pt_core.specs.declared.sink.Sink.{Ghosts as SinkGhosts}
use Rattle.run_output.specs.Told.{AllWent, BrokeOff, IsMessage, told_of}

-- how the calls of a sink ended, by their result: no call failed after an `Ok`; after an `Err` one failed, and it was
-- the last
abbrev pub CallsEnd : {E A : Type 0} → Result Unit E → SinkGhosts A → A → A → Type 0
CallsEnd (Ok done) of_sink old new = AllWent (told_of of_sink old) (told_of of_sink new)
CallsEnd (Err fault) of_sink old new = BrokeOff (told_of of_sink old) (told_of of_sink new)

-- a message was written to this sink
abbrev pub IsMessageTo : {A : Type 0} → List ℕ → SinkGhosts A → A → A → Type 0
IsMessageTo message of_sink old new = IsMessage message (told_of of_sink old) (told_of of_sink new)
