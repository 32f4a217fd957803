use Rattle.std.proofs.Common.{◌≡◌, ◌-◌, ◌∙◌, ℕ, None, [], ◌∷◌, sym, ap, map, arith}
use Rattle.std.specs.List.{filter_map, range_with_len}
use Rattle.std.proofs.lemmas.List.{map-append}
use Rattle.switchboard.specs.State.{end_so_far}
use Rattle.farm_report.specs.declared.report.CallLine.{CallLine}
use Rattle.farm_rounds.specs.declared.tally.Tally.{Tally}
use Rattle.farm_run.specs.Facts.{kept_in, call_line}
use Rattle.farm_run.proofs.Reported.Reporting.{kept_value, none_made, one_made, line_with, line_none, line_is}
use Rattle.farm_run.proofs.report.call_lines.Goals as goal

pub loop-call-preserved : goal.loop-call-preserved
loop-call-preserved c =
    let farm = c.args.farm.now in
    let b = c.args.board.now in
    let call = c.loop-call.call in
    let first = c.loop-call.invariant.first in
    let line = line_with c.in-Some.end c.from.result c.counts.result in
    let old = c.loop-call.lines.items in
    let new = c.push.new.self.items in
    record {
      first = omega (arith, first);
      ends =
          one_made (end_so_far b) call c.in-Some.end (map (λ (x : CallLine). x.end) old) (map (λ (x : CallLine). x.end) new) first
          (sym c.«end».ensures.now ∙ c.in-Some.is)
          (ap (map (λ (x : CallLine). x.end)) c.in_ok-push.ensures.items ∙ map-append (λ (x : CallLine). x.end) old (line ∷ []))
          c.loop-call.invariant.ends;
      lines = λ h g.
          one_made (call_line b (kept_in farm.tallies h)) call line old new first
          (line_is b (kept_in farm.tallies h) call c.in-Some.end c.from.result c.counts.result (sym c.«end».ensures.now ∙ c.in-Some.is)
          c.from.ensures
          (kept_value (λ (t : Tally). t.counts) h farm.calls farm.tallies call c.counts.result g (λ x. c.counts.ensures.live h x g)
          c.counts.ensures.ended)) c.in_ok-push.ensures.items (c.loop-call.invariant.lines h g);
    }

pub loop-call-preserved-in_default : goal.loop-call-preserved-in_default
loop-call-preserved-in_default c =
    let b = c.args.board.now in
    let call = c.loop-call.call in
    let first = c.loop-call.invariant.first in
    let none : end_so_far b call ≡ None = sym c.«end».ensures.now ∙ c.in_default.is in
    record {
      first = omega (arith, first);
      ends = none_made (end_so_far b) call _ first none c.loop-call.invariant.ends;
      lines = λ h g.
          let kept = kept_in c.args.farm.now.tallies h in
          none_made (call_line b kept) call c.loop-call.lines.items first (line_none b kept call none) (c.loop-call.invariant.lines h g);
    }

pub returns : goal.returns
returns c =
    let b = c.args.board.now in
    let all : c.loop-call.call - 1 ≡ 4096 = omega (arith, c.loop-call-test.false, c.loop-call.auto.call-end) in
    record {
      ends = c.loop-call.invariant.ends ∙ ap (λ (n : ℕ). filter_map (end_so_far b) (range_with_len 1 n)) all;
      lines = λ h g.
          c.loop-call.invariant.lines h g
          ∙ ap (λ (n : ℕ). filter_map (call_line b (kept_in c.args.farm.now.tallies h)) (range_with_len 1 n)) all;
    }
