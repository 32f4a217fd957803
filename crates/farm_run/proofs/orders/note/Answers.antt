use Rattle.std.proofs.Common.{◌≡◌, ap, ◌∙◌, sym, ℕ, List, ◌++◌, ◌∷◌, []}
use Rattle.switchboard.specs.declared.act.Act.{Act}
use Rattle.farm_rounds.specs.declared.tally.Tally.{Tally}
use Rattle.farm_run.specs.Noted.{noted_by}
use Rattle.farm_run.specs.declared.notes.SentBefore.{SentBefore}
use Rattle.farm_run.specs.Facts.{kept_in}
use Rattle.farm_run.proofs.Reported.Reporting.{kept_value}
use Rattle.farm_run.proofs.orders.note.Goals as goal

-- the notes with one more
abbrev notes_with : List SentBefore → ℕ → ℕ → List SentBefore
notes_with notes by_a by_b = notes ++ record { by_a = by_a; by_b = by_b } ∷ []

pub returns-in-Bridged-clause-noted : goal.returns-in-Bridged-clause-noted
returns-in-Bridged-clause-noted c = λ h g.
    let a = c.in-Bridged.a in
    let b = c.in-Bridged.b in
    let farm = c.args.farm.now in
    let start = c.args.notes.now in
    let sent_a : c.sent.result ≡ (kept_in farm.tallies h a).sent =
    kept_value (λ (t : Tally). t.sent) h farm.calls farm.tallies a c.sent.result g (λ x. c.sent.ensures.live h x g) c.sent.ensures.ended in
    let sent_b : c.sent-in-Bridged.result ≡ (kept_in farm.tallies h b).sent =
    kept_value (λ (t : Tally). t.sent) h farm.calls farm.tallies b c.sent-in-Bridged.result g
    (λ x. c.sent-in-Bridged.ensures.live h x g) c.sent-in-Bridged.ensures.ended in
    c.bridge.ensures ∙ ap (λ (v : ℕ). notes_with start v c.sent-in-Bridged.result) sent_a
    ∙ ap (λ (v : ℕ). notes_with start (kept_in farm.tallies h a).sent v) sent_b
    ∙ ap (λ (x : Act). noted_by x (λ d. (kept_in farm.tallies h d).sent) start) (sym c.in-Bridged.is)
