use Rattle.std.proofs.Common.{arith}
use Rattle.call_leg.proofs.Downlink.Numbered.{frames-numbered, start-next, next-ahead, start-come}
use Rattle.call_leg.proofs.laws.the_frames_are_made_by_number.Goals as goal

pub returns-clause-frames : goal.returns-clause-frames
returns-clause-frames c = frames-numbered

pub returns-clause-next : goal.returns-clause-next
returns-clause-next c = start-next

pub returns-clause-ahead : goal.returns-clause-ahead
returns-clause-ahead c = λ ts h. omega (arith, start-next ts h, next-ahead ts)

pub returns-clause-least : goal.returns-clause-least
returns-clause-least c = start-come

pub returns-clause-history : goal.returns-clause-history
returns-clause-history c = λ m who ts now h. h.down.history
