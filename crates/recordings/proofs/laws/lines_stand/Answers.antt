-- Each law is shown in a file of its own.
use Rattle.recordings.proofs.Back.{lines_stand_lem, lines_read_back}
use Rattle.recordings.proofs.Splitting.{lines_cut}
use Rattle.recordings.proofs.laws.lines_stand.Goals as goal

pub returns-clause-stand : goal.returns-clause-stand
returns-clause-stand c = lines_stand_lem

pub returns-clause-back : goal.returns-clause-back
returns-clause-back c = lines_read_back

pub returns-clause-cut : goal.returns-clause-cut
returns-clause-cut c = lines_cut
