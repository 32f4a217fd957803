-- The words of a live drill.
use Rattle.std.proofs.Common.{◌≡◌, Option, subst, arith}
use Rattle.std.specs.Prelude.{codes}
use Rattle.clap.specs.Words.{Text}
use Rattle.command_words.specs.declared.live.LiveSettings.{LiveSettings}
use Rattle.command_words.specs.Options.{IsValueOf}
use Rattle.command_words.specs.Live.{GivesLive}
use Rattle.command_words.proofs.Matched.{one_value}

-- the same texts give the same live drill
pub same_live_texts : (v w : Text → Option Text) (s : LiveSettings) → ((id : Text) → v id ≡ w id) → GivesLive v s → GivesLive w s
same_live_texts v w s same gives = record {
  seed = subst (λ o. IsValueOf o 0 4294967295 1 s.seed) (same (codes "seed")) gives.seed;
  calls = subst (λ o. IsValueOf o 1 256 64 s.calls) (same (codes "calls")) gives.calls;
  periods = subst (λ o. IsValueOf o 1 1000 200 s.periods) (same (codes "periods")) gives.periods;
  callers = subst (λ o. IsValueOf o 1 64 4 s.callers) (same (codes "callers")) gives.callers;
  inbox = subst (λ o. IsValueOf o 1 1024 8 s.inbox) (same (codes "inbox")) gives.inbox;
}

-- they give one
pub one_live_of : (text_of : Text → Option Text) (s t : LiveSettings) → GivesLive text_of s → GivesLive text_of t → s ≡ t
one_live_of text_of s t first second =
    let seed = one_value _ 0 4294967295 1 s.seed t.seed (omega arith) first.seed second.seed in
    let calls = one_value _ 1 256 64 s.calls t.calls (omega arith) first.calls second.calls in
    let periods = one_value _ 1 1000 200 s.periods t.periods (omega arith) first.periods second.periods in
    let callers = one_value _ 1 64 4 s.callers t.callers (omega arith) first.callers second.callers in
    let inbox = one_value _ 1 1024 8 s.inbox t.inbox (omega arith) first.inbox second.inbox in
    λ i. record { seed = seed i; calls = calls i; periods = periods i; callers = callers i; inbox = inbox i }
