use Rattle.tag_writer.proofs.Locking.{unlocked_is_done, free_is_done, refused_is_locked}
use Rattle.tag_writer.proofs.law.unlocked_is_done.Goals as goal

pub returns-clause-refused : goal.returns-clause-refused
returns-clause-refused c = unlocked_is_done

pub returns-clause-done : goal.returns-clause-done
returns-clause-done c = free_is_done

pub returns-clause-cause : goal.returns-clause-cause
returns-clause-cause c = refused_is_locked
