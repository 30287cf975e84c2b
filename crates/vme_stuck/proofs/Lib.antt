mod Marks
mod Ends
mod Lists
mod Texts
