use Rattle.std.proofs.Common.{ℕ, ◌∷◌, [], List, Option}
use Rattle.switchboard.specs.declared.act.Refusal.{Refusal}
use Rattle.switchboard.specs.declared.act.Act.TheVariants as act
use Rattle.switchboard.specs.Replies.{Known, not_open, bridged, draining, same_call}
use Rattle.switchboard.specs.Rows.{known_in}
use Rattle.switchboard.proofs.Orders.Replies.{not_same, next_test, failed_test, refused_by, none_in_table}
use Rattle.switchboard.proofs.table.Table.bridge_reply.Goals as goal

-- the tests from one on
abbrev from_6 : Known → ℕ → ℕ → List (Option Refusal)
from_6 k a b = draining k b ∷ []

abbrev from_5 : Known → ℕ → ℕ → List (Option Refusal)
from_5 k a b = draining k a ∷ from_6 k a b

abbrev from_4 : Known → ℕ → ℕ → List (Option Refusal)
from_4 k a b = bridged k b ∷ from_5 k a b

abbrev from_3 : Known → ℕ → ℕ → List (Option Refusal)
from_3 k a b = bridged k a ∷ from_4 k a b

abbrev from_2 : Known → ℕ → ℕ → List (Option Refusal)
from_2 k a b = not_open k b ∷ from_3 k a b

abbrev from_1 : Known → ℕ → ℕ → List (Option Refusal)
from_1 k a b = not_open k a ∷ from_2 k a b

abbrev from_0 : Known → ℕ → ℕ → List (Option Refusal)
from_0 k a b = same_call a b ∷ from_1 k a b

pub returns-in_err-must_be_open : goal.returns-in_err-must_be_open
returns-in_err-must_be_open c =
    let a = c.args.a in
    let b = c.args.b in
    let k = known_in c.args.self.now c.args.stamp in
    record {
      value = refused_by (from_0 k a b) (act.Bridged a b) _ c.from_residual.result
          (not_same a b (from_1 k a b) _ c.if-a-b.false (failed_test (not_open k a) (from_2 k a b) _ _ c.must_be_open.ensures c.in_err-must_be_open.was))
          c.from_residual.ensures.1;
      calls = none_in_table c.from_residual.result c.from_residual.ensures.0;
    }

pub returns-in_err-must_be_open-2 : goal.returns-in_err-must_be_open-2
returns-in_err-must_be_open-2 c =
    let a = c.args.a in
    let b = c.args.b in
    let k = known_in c.args.self.now c.args.stamp in
    record {
      value = refused_by (from_0 k a b) (act.Bridged a b) _ c.from_residual-in_err-must_be_open-2.result
          (not_same a b (from_1 k a b) _ c.if-a-b.false (next_test (not_open k a) (from_2 k a b) _ _ _ c.must_be_open.ensures c.in_ok-must_be_open.was
          (failed_test (not_open k b) (from_3 k a b) _ _ c.must_be_open-2.ensures c.in_err-must_be_open-2.was)))
          c.from_residual-in_err-must_be_open-2.ensures.1;
      calls = none_in_table c.from_residual-in_err-must_be_open-2.result c.from_residual-in_err-must_be_open-2.ensures.0;
    }

pub returns-in_err-must_be_alone : goal.returns-in_err-must_be_alone
returns-in_err-must_be_alone c =
    let a = c.args.a in
    let b = c.args.b in
    let k = known_in c.args.self.now c.args.stamp in
    record {
      value = refused_by (from_0 k a b) (act.Bridged a b) _ c.from_residual-in_err-must_be_alone.result
          (not_same a b (from_1 k a b) _ c.if-a-b.false (next_test (not_open k a) (from_2 k a b) _ _ _ c.must_be_open.ensures c.in_ok-must_be_open.was
          (next_test (not_open k b) (from_3 k a b) _ _ _ c.must_be_open-2.ensures c.in_ok-must_be_open-2.was
          (failed_test (bridged k a) (from_4 k a b) _ _ c.must_be_alone.ensures c.in_err-must_be_alone.was)))) c.from_residual-in_err-must_be_alone.ensures.1;
      calls = none_in_table c.from_residual-in_err-must_be_alone.result c.from_residual-in_err-must_be_alone.ensures.0;
    }

pub returns-in_err-must_be_alone-2 : goal.returns-in_err-must_be_alone-2
returns-in_err-must_be_alone-2 c =
    let a = c.args.a in
    let b = c.args.b in
    let k = known_in c.args.self.now c.args.stamp in
    record {
      value = refused_by (from_0 k a b) (act.Bridged a b) _ c.from_residual-in_err-must_be_alone-2.result
          (not_same a b (from_1 k a b) _ c.if-a-b.false (next_test (not_open k a) (from_2 k a b) _ _ _ c.must_be_open.ensures c.in_ok-must_be_open.was
          (next_test (not_open k b) (from_3 k a b) _ _ _ c.must_be_open-2.ensures c.in_ok-must_be_open-2.was
          (next_test (bridged k a) (from_4 k a b) _ _ _ c.must_be_alone.ensures c.in_ok-must_be_alone.was
          (failed_test (bridged k b) (from_5 k a b) _ _ c.must_be_alone-2.ensures c.in_err-must_be_alone-2.was)))))
          c.from_residual-in_err-must_be_alone-2.ensures.1;
      calls = none_in_table c.from_residual-in_err-must_be_alone-2.result c.from_residual-in_err-must_be_alone-2.ensures.0;
    }

pub returns-in_err-must_not_drain : goal.returns-in_err-must_not_drain
returns-in_err-must_not_drain c =
    let a = c.args.a in
    let b = c.args.b in
    let k = known_in c.args.self.now c.args.stamp in
    record {
      value = refused_by (from_0 k a b) (act.Bridged a b) _ c.from_residual-in_err-must_not_drain.result
          (not_same a b (from_1 k a b) _ c.if-a-b.false (next_test (not_open k a) (from_2 k a b) _ _ _ c.must_be_open.ensures c.in_ok-must_be_open.was
          (next_test (not_open k b) (from_3 k a b) _ _ _ c.must_be_open-2.ensures c.in_ok-must_be_open-2.was
          (next_test (bridged k a) (from_4 k a b) _ _ _ c.must_be_alone.ensures c.in_ok-must_be_alone.was
          (next_test (bridged k b) (from_5 k a b) _ _ _ c.must_be_alone-2.ensures c.in_ok-must_be_alone-2.was
          (failed_test (draining k a) (from_6 k a b) _ _ c.must_not_drain.ensures c.in_err-must_not_drain.was))))))
          c.from_residual-in_err-must_not_drain.ensures.1;
      calls = none_in_table c.from_residual-in_err-must_not_drain.result c.from_residual-in_err-must_not_drain.ensures.0;
    }

pub returns-in_err-must_not_drain-2 : goal.returns-in_err-must_not_drain-2
returns-in_err-must_not_drain-2 c =
    let a = c.args.a in
    let b = c.args.b in
    let k = known_in c.args.self.now c.args.stamp in
    record {
      value = refused_by (from_0 k a b) (act.Bridged a b) _ c.from_residual-in_err-must_not_drain-2.result
          (not_same a b (from_1 k a b) _ c.if-a-b.false (next_test (not_open k a) (from_2 k a b) _ _ _ c.must_be_open.ensures c.in_ok-must_be_open.was
          (next_test (not_open k b) (from_3 k a b) _ _ _ c.must_be_open-2.ensures c.in_ok-must_be_open-2.was
          (next_test (bridged k a) (from_4 k a b) _ _ _ c.must_be_alone.ensures c.in_ok-must_be_alone.was
          (next_test (bridged k b) (from_5 k a b) _ _ _ c.must_be_alone-2.ensures c.in_ok-must_be_alone-2.was
          (next_test (draining k a) (from_6 k a b) _ _ _ c.must_not_drain.ensures c.in_ok-must_not_drain.was
          (failed_test (draining k b) [] _ _ c.must_not_drain-2.ensures c.in_err-must_not_drain-2.was))))))) c.from_residual-in_err-must_not_drain-2.ensures.1;
      calls = none_in_table c.from_residual-in_err-must_not_drain-2.result c.from_residual-in_err-must_not_drain-2.ensures.0;
    }
