use Rattle.nj_banked.proofs.Shown.{uxrom-after, cnrom-after, last-chosen}
use Rattle.nj_banked.proofs.laws.calls_show_windows.Goals as goal

pub returns-clause-uxrom : goal.returns-clause-uxrom
returns-clause-uxrom c = uxrom-after

pub returns-clause-cnrom : goal.returns-clause-cnrom
returns-clause-cnrom c = cnrom-after

pub returns-clause-chosen : goal.returns-clause-chosen
returns-clause-chosen c = last-chosen
