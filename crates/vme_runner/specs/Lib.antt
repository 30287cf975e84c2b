-- The definitions that the contracts of the re-exported items cite, from the crates of these items, and those of the laws.
-- Where two crates have a file of one name, one of them has another name here.
-- What a line of a script does next, by the replies to it so far.
pub use Rattle.vme_line_task.specs.Scripts
pub use Rattle.vme_line_task.specs.ReadBuffers
pub use Rattle.vme_line_task.specs.Tables
pub use Rattle.vme_line_task.specs.Machine
pub use Rattle.vme_line_task.specs.Events
pub use Rattle.vme_line_task.specs.Traces
pub use Rattle.vme_line_task.specs.Tenures
-- Runs by turns on one thread.
pub use Rattle.vme_stepper.specs.Turns
pub use Rattle.vme_stepper.specs.Schedules
pub use Rattle.vme_stepper.specs.Reports as StepReports
-- Runs on threads.
pub use Rattle.vme_threads.specs.Ports
pub use Rattle.vme_threads.specs.Rans
pub use Rattle.vme_threads.specs.Reports
pub use Rattle.vme_threads.specs.OneOrder
pub use Rattle.vme_threads.specs.Settlements
pub use Rattle.vme_threads.specs.Gatherings
pub use Rattle.vme_threads.specs.ReportTexts as ThreadReports
pub use Rattle.vme_run.specs.Orders
pub use Rattle.vme_threads.specs.Threads
-- The text of a report.
pub use Rattle.vme_report.specs.Ends
pub use Rattle.vme_report.specs.Reports as ReportTexts
pub use Rattle.vme_run.specs.RunTexts
-- Laws.
pub use Rattle.vme_mailbox_laws.specs.Names
pub use Rattle.vme_mailbox_laws.specs.Groups
pub mod DeclaredMailboxes
pub mod Finished
pub mod Granted
pub mod TurnCalls
pub mod Transitions
pub mod OrderLaws
pub mod TransferTenures
