-- `lock_pieces::put_attribute` meets its contract. Assumes nothing.
use Rattle.locks.proofs.PutLaws.{put_both}
use borrow.Author.Rules.{rules}
use Rattle.lock_pieces.proofs.put_attribute.Goals as goal

pub returns : goal.returns
returns c = put_both c.put-start.ensures c.put.ensures c.requires
