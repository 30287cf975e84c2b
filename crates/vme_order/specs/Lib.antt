pub mod Systems
pub mod Orders
pub mod ArrayOrders
