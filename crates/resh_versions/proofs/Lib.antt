pub mod ChainLaws
pub mod Filing
pub mod GoingOn
pub mod KeptLists
pub mod Listing
pub mod Pruning
pub mod Storing
pub mod WriteLaws
