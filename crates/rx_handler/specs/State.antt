-- The code's state and answer by their fields.
use Rattle.trau_params.specs.Fields.{fields_of}
use Rattle.rx_handler.specs.declared.effective.Effective.{Effective}
use Rattle.rx_handler.specs.declared.effective.Effective.TheVariants as answers
use Rattle.rx_handler.specs.declared.state.State.{State}
use Rattle.rx_handler.specs.declared.state.State.TheVariants as states
use Rattle.rx_handler.specs.declared.reception.Reception.{Reception}
use Rattle.rx_handler.specs.declared.reception.Reception.TheVariants as receptions
use Rattle.rx_handler.specs.Heard.{Heard, Good, Sid, Idle, Lost}
use Rattle.rx_handler.specs.Origin.{EffectiveFields, Quiet, Speech, Made}
use Rattle.rx_handler.specs.Memory as table

abbrev pub state_of : State → table.RxState
state_of states.Quiet = table.Quiet
state_of (states.Speech since) = table.Speech (fields_of since.last) since.periods
state_of (states.Noise pause) = table.Noise (fields_of pause.from) (fields_of pause.sid) pause.step pause.fall.missed_sids pause.fall.periods

abbrev pub effective_fields : Effective → EffectiveFields
effective_fields answers.Quiet = Quiet
effective_fields (answers.Speech p) = Speech (fields_of p)
effective_fields (answers.Made p) = Made (fields_of p)

-- what a period brings
abbrev pub heard_fields : Reception → Heard
heard_fields (receptions.Good p) = Good (fields_of p)
heard_fields (receptions.Sid p) = Sid (fields_of p)
heard_fields receptions.Idle = Idle
heard_fields (receptions.Lost missed) = Lost missed
