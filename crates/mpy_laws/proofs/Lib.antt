pub mod Alike
pub mod AlikeRuns
pub mod BackFromTrees
pub mod Preorder
