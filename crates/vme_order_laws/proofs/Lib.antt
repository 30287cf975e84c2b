mod Processors
mod Traces
mod Machines
mod EntryKinds
mod Orders
mod Reports
mod Texts
