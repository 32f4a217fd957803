-- For crates above: how tests of listed lines combine, and which place of a table is a line's (`one_line`).
pub use Rattle.std.proofs.lemmas.Bool.{or_cases, or_left, or_right, false_from_ne_true as is_false, both_ways as no}
pub use Rattle.farm_rounds.proofs.Failed.Names.{one_line, listed_head}
