use Rattle.std.proofs.Common.{refl}
use Rattle.std.specs.Prelude.{codes}
use Rattle.trau_orders.proofs.Words.{all_three, no_call, no_three, other_verb, nothing_ordered}
use Rattle.trau_orders.proofs.line.of_three.Goals as goal

pub returns-in_err-call : goal.returns-in_err-call
returns-in_err-call c = record {
  some = nothing_ordered _ _ c.from_residual.ensures;
  none = λ none. no_call c.args.verb.now c.args.call.now c.args.more.now (c.in_err-call.ensures.none refl);
}

pub returns-in_err-law_of : goal.returns-in_err-law_of
returns-in_err-law_of c =
    let verb = c.args.verb.now in
    let is = c.if-is_word.ensures.yes refl in
    record {
      some = nothing_ordered _ _ c.from_residual-in_err-law_of.ensures;
      none = λ none. no_three verb c.args.call.now c.args.more.now (λ e. c.in_err-law_of.ensures.none refl)
          (other_verb verb (codes "open") (codes "bridge") _ refl is) (other_verb verb (codes "open") (codes "level") _ refl is)
          (other_verb verb (codes "open") (codes "dtx") _ refl is);
    }

pub returns-in_err-call_of : goal.returns-in_err-call_of
returns-in_err-call_of c =
    let verb = c.args.verb.now in
    let is = c.if-is_word-2.ensures.yes refl in
    record {
      some = nothing_ordered _ _ c.from_residual-in_err-call_of.ensures;
      none = λ none. no_three verb c.args.call.now c.args.more.now (λ e. absurd (c.if-is_word.ensures.no refl e)) (λ e. c.in_err-call_of.ensures.none refl)
          (other_verb verb (codes "bridge") (codes "level") _ refl is) (other_verb verb (codes "bridge") (codes "dtx") _ refl is);
    }

pub returns-in_err-level_of : goal.returns-in_err-level_of
returns-in_err-level_of c =
    let verb = c.args.verb.now in
    let is = c.if-is_word-3.ensures.yes refl in
    record {
      some = nothing_ordered _ _ c.from_residual-in_err-level_of.ensures;
      none = λ none. no_three verb c.args.call.now c.args.more.now (λ e. absurd (c.if-is_word.ensures.no refl e))
          (λ e. absurd (c.if-is_word-2.ensures.no refl e))
          (λ e. c.in_err-level_of.ensures.none refl) (other_verb verb (codes "level") (codes "dtx") _ refl is);
    }

pub returns-in_err-mode_of : goal.returns-in_err-mode_of
returns-in_err-mode_of c = record {
  some = nothing_ordered _ _ c.from_residual-in_err-mode_of.ensures;
  none = λ none. no_three c.args.verb.now c.args.call.now c.args.more.now (λ e. absurd (c.if-is_word.ensures.no refl e))
      (λ e. absurd (c.if-is_word-2.ensures.no refl e)) (λ e. absurd (c.if-is_word-3.ensures.no refl e)) (λ e. c.in_err-mode_of.ensures.none refl);
}

pub returns-else-is_word-4 : goal.returns-else-is_word-4
returns-else-is_word-4 c = record {
  some = tt;
  none = λ none. no_three c.args.verb.now c.args.call.now c.args.more.now (λ e. absurd (c.if-is_word.ensures.no refl e))
      (λ e. absurd (c.if-is_word-2.ensures.no refl e)) (λ e. absurd (c.if-is_word-3.ensures.no refl e)) (λ e. absurd (c.if-is_word-4.ensures.no refl e));
}

pub returns-in_ok-law_of-clause-some : goal.returns-in_ok-law_of-clause-some
returns-in_ok-law_of-clause-some c =
    let call = c.in_ok-call.ensures.some in
    let law = c.in_ok-law_of.ensures.some in
    record { in_range = call.0; spelled = rw law.0 (all_three _ _ _ _ _ _ (c.if-is_word.ensures.yes refl) call.1 law.1) }

pub returns-in_ok-call_of-clause-some : goal.returns-in_ok-call_of-clause-some
returns-in_ok-call_of-clause-some c =
    let call = c.in_ok-call.ensures.some in
    let other = c.in_ok-call_of.ensures.some in
    record { in_range = (call.0, other.0); spelled = all_three _ _ _ _ _ _ (c.if-is_word-2.ensures.yes refl) call.1 other.1 }

pub returns-in_ok-mode_of-clause-some : goal.returns-in_ok-mode_of-clause-some
returns-in_ok-mode_of-clause-some c =
    let call = c.in_ok-call.ensures.some in
    let mode = c.in_ok-mode_of.ensures.some in
    record { in_range = call.0; spelled = all_three _ _ _ _ _ _ (c.if-is_word-4.ensures.yes refl) call.1 mode }
