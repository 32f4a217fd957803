-- The text of a report (this project's profile): a line for each executed order, one for each bridge, two for each
-- call, one for each line of a call that failed, and one for the end.
use Rattle.std.specs.Prelude.{ℕ, max, List, [], ◌∷◌, ◌++◌, length, codes, decimal, Result, Ok, Err}
use Rattle.std.specs.List.{flat_map, fold}
use Rattle.trau_io.specs.declared.line.Line.{Line}
use Rattle.trau_io.specs.declared.ends.Cause.{Cause}
use Rattle.trau_io.specs.declared.ends.Cause.TheVariants.{Closed, End, Fault, Limit}
use Rattle.trau_io.specs.declared.ends.Counts.{Counts}
use Rattle.trau_io.specs.Texts.{failed_text, side_word}
use Rattle.switchboard.specs.declared.act.Act.{Act}
use Rattle.switchboard.specs.declared.act.Refusal.{Refusal}
use Rattle.switchboard.specs.declared.act.Refusal.TheVariants.{AlreadyOpen, NotOpen, Bridged, NotBridged, SameCall, Draining, NumberUsed}
use Rattle.switchboard.specs.declared.act.Reply.{Reply}
use Rattle.farm_report.specs.declared.report.SpanLine.{SpanLine}
use Rattle.farm_report.specs.declared.report.CallLine.{CallLine}
use Rattle.farm_report.specs.View.{ReportView}

-- a line of these words: one space between words, and an LF at the end
abbrev pub line_of : List (List ℕ) → List ℕ
line_of [] = codes "\n"
line_of (word ∷ []) = word ++ codes "\n"
line_of (word ∷ next ∷ words) = word ++ (codes " " ++ line_of (next ∷ words))

-- the number of a refusal
abbrev pub number_of : Refusal → ℕ
number_of (AlreadyOpen c) = 1
number_of (NotOpen c) = 2
number_of (Bridged c d) = 3
number_of (NotBridged c) = 4
number_of (SameCall c) = 5
number_of (Draining c d) = 6
number_of (NumberUsed c) = 7

-- the call that a refusal is about
abbrev pub refused_call : Refusal → ℕ
refused_call (AlreadyOpen c) = c
refused_call (NotOpen c) = c
refused_call (Bridged c d) = c
refused_call (NotBridged c) = c
refused_call (SameCall c) = c
refused_call (Draining c d) = c
refused_call (NumberUsed c) = c

-- the other call of the bridge that a refusal is about
abbrev pub partner_words : Refusal → List (List ℕ)
partner_words (AlreadyOpen c) = []
partner_words (NotOpen c) = []
partner_words (Bridged c d) = codes "partner" ∷ decimal d ∷ []
partner_words (NotBridged c) = []
partner_words (SameCall c) = []
partner_words (Draining c d) = codes "partner" ∷ decimal d ∷ []
partner_words (NumberUsed c) = []

-- order N ok
-- order N refused K call C
-- order N refused K call C partner D
abbrev pub outcome_words : Result Act Refusal → List (List ℕ)
outcome_words (Ok act) = codes "ok" ∷ []
outcome_words (Err refusal) = codes "refused" ∷ decimal (number_of refusal) ∷ codes "call" ∷ decimal (refused_call refusal) ∷ partner_words refusal

abbrev pub reply_line : Reply → List ℕ
reply_line reply = line_of (codes "order" ∷ decimal reply.order ∷ outcome_words reply.result)

-- bridge A B from S to E sent X Y lost U V
abbrev pub span_line : SpanLine → List ℕ
span_line s =
    line_of (codes "bridge" ∷ decimal s.span.a ∷ decimal s.span.b ∷ codes "from" ∷ decimal s.span.from ∷ codes "to" ∷ decimal s.span.to
    ∷ codes "sent" ∷ decimal s.sent_a ∷ decimal s.sent_b ∷ codes "lost" ∷ decimal s.lost_a ∷ decimal s.lost_b ∷ [])

-- call C from S to E closed
-- call C from S to E end up R
-- call C from S to E fault up
-- call C from S to E limit
abbrev pub cause_words : Cause → List (List ℕ)
cause_words Closed = codes "closed" ∷ []
cause_words (End side left) = codes "end" ∷ side_word side ∷ decimal left ∷ []
cause_words (Fault side) = codes "fault" ∷ side_word side ∷ []
cause_words Limit = codes "limit" ∷ []

abbrev pub end_line : CallLine → List ℕ
end_line c = line_of (codes "call" ∷ decimal c.end.call ∷ codes "from" ∷ decimal c.from ∷ codes "to" ∷ decimal c.end.at ∷ cause_words c.end.cause)

-- counts C good G sid V invalid I bad U idle Z other O miss M none Q made J
abbrev pub counts_line : ℕ → Counts → List ℕ
counts_line call n =
    line_of (codes "counts" ∷ decimal call ∷ codes "good" ∷ decimal n.good ∷ codes "sid" ∷ decimal n.sid ∷ codes "invalid" ∷ decimal n.invalid
    ∷ codes "bad" ∷ decimal n.bad ∷ codes "idle" ∷ decimal n.idle ∷ codes "other" ∷ decimal n.other ∷ codes "miss" ∷ decimal n.miss
    ∷ codes "none" ∷ decimal n.none ∷ codes "made" ∷ decimal n.made ∷ [])

abbrev pub call_lines : CallLine → List ℕ
call_lines c = end_line c ++ counts_line c.end.call c.counts

-- line C up failed
abbrev pub failed_line : Line → List ℕ
failed_line line = failed_text line.call line.side

-- the greatest end of a call, or 0 if there are none
abbrev pub last_end : List CallLine → ℕ
last_end calls = fold (λ at call. max at call.end.at) 0 calls

-- end period P calls N left L
abbrev pub last_line : List CallLine → ℕ → List ℕ
last_line calls left =
    line_of (codes "end" ∷ codes "period" ∷ decimal (last_end calls) ∷ codes "calls" ∷ decimal (length calls) ∷ codes "left" ∷ decimal left ∷ [])

-- the whole text, each list in its order
unfoldable pub report_text : ReportView → List ℕ
report_text r = flat_map reply_line r.replies ++ flat_map span_line r.spans ++ flat_map call_lines r.calls ++ flat_map failed_line r.failed
    ++ last_line r.calls r.left
