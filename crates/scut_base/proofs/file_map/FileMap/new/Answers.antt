use Rattle.std.proofs.Common.{ap}
use Rattle.scut_base.specs.FileMap.{files_of}
use Rattle.scut_base.proofs.file_map.FileMap.new.Goals as goal

pub returns : goal.returns
unfolding files_of
returns c = ap files_of c.new.ensures.empty
