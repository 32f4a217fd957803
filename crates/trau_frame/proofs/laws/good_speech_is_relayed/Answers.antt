use Rattle.trau_frame.proofs.Relayed.{is_good_speech, told_good_speech, down_bits-relayed}
use Rattle.trau_frame.proofs.laws.good_speech_is_relayed.Goals as goal

pub returns-clause-good : goal.returns-clause-good
returns-clause-good c = λ bits f count synced says.
    (λ good. told_good_speech bits f says good, λ told. is_good_speech bits f count synced says told.0 told.1)

pub returns-clause-relayed : goal.returns-clause-relayed
returns-clause-relayed c = down_bits-relayed
