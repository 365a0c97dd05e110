pub mod HashLaws
pub mod OrderCodes
pub mod OrderEquations
pub mod OrderFolds
pub mod OrderTies
