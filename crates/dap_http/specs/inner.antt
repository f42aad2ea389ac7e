pub mod Judging
pub mod Parting
pub mod Putting
pub mod ReplyJudging
pub mod Steps
pub mod Tracking
pub mod UnderWay
