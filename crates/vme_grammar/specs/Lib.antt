pub mod Canonical
pub mod Operands
pub mod Fields
pub mod Forms
pub mod Grammar
pub mod Naming
pub mod Modifies
pub mod Texts
