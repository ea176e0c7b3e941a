use Rattle.obj_report.specs.Printed.{report_asked, text_asked}
use Rattle.obj_report.proofs.scene_shown.Goals as goal

pub returns-in-Report : goal.returns-in-Report
returns-in-Report c = report_asked c.in-Report.is c.scene_report.ensures

pub returns-in-Text : goal.returns-in-Text
returns-in-Text c = text_asked _ c.in-Text.is c.text_shown.ensures
