pub mod StatusLine
