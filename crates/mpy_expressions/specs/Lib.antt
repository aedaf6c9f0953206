pub mod Grammar
pub mod Joints
pub mod Longest
pub mod Programs
pub mod Reading
pub mod Terminals
pub mod Forms
pub mod Views
