-- A report as contracts see it: its numbers and its lists.
use Rattle.std.specs.Prelude.{ℕ, List}
use Rattle.trau_io.specs.declared.line.Line.{Line}
use Rattle.switchboard.specs.declared.act.Reply.{Reply}
use Rattle.farm_report.specs.declared.report.SpanLine.{SpanLine}
use Rattle.farm_report.specs.declared.report.CallLine.{CallLine}

pub record ReportView : Type 0 where
  pub replies : List Reply
  pub spans : List SpanLine
  pub calls : List CallLine
  pub failed : List Line
  pub left : ℕ
