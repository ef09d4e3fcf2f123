pub use Rattle.front_set.specs.ListText
pub use Rattle.instance.specs.ParetoFront
pub use Rattle.front_text.specs.ModelsText
pub use Rattle.representatives.specs.Representatives
pub use Rattle.representatives.specs.Bounded
pub use Rattle.representative_search.specs.Gathered
pub use Rattle.command_base.specs.Answering
pub use Rattle.command_base.specs.Messages
pub use Rattle.command_base.specs.Views
pub use Rattle.command_check_models.specs.Entries
pub use Rattle.command_check_models.specs.Table as CheckModelsTable
pub use Rattle.command_check_models.specs.Words as RequestWords
pub mod Words
pub mod Table
pub mod Gathering
pub mod Laws
