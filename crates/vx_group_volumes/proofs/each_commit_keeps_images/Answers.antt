use Rattle.vx_group_volumes.proofs.Commits.{commit_keeps_images, commit_keeps_public}
use Rattle.vx_group_volumes.proofs.each_commit_keeps_images.Goals as goal

pub returns-clause-public : goal.returns-clause-public
returns-clause-public c = commit_keeps_public

pub returns-clause-images : goal.returns-clause-images
returns-clause-images c = commit_keeps_images
