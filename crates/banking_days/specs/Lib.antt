pub mod Weekdays
pub mod SecondWay
pub mod Lists
pub mod SixDigits
pub mod Rising
pub mod Seeking
