-- `State::step_formed` meets its contract: each call by its own.
use Rattle.model.proofs.Facts.{formed-sound, formed-shaped}
use Rattle.model.proofs.State.step_formed.Goals as goal

pub load_formed-requires : goal.load_formed-requires
load_formed-requires c = formed-sound _ _ c.args.memory.now c.requires

pub retry_formed-requires : goal.retry_formed-requires
retry_formed-requires c = formed-sound _ _ c.args.memory.now c.requires

pub commit_formed-requires : goal.commit_formed-requires
commit_formed-requires c = formed-shaped _ c.args.cache.now c.args.memory.now c.requires

pub show_formed-requires : goal.show_formed-requires
show_formed-requires c = formed-shaped _ c.args.cache.now c.args.memory.now c.requires
