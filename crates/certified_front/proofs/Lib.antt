pub mod ListedModels
pub mod EndLines
pub mod Boards
pub mod PreparedLines
pub mod AdvisedLines
pub mod BoostedFronts
pub mod Reordering
