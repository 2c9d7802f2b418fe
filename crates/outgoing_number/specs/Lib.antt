pub mod Issue
