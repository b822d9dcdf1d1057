mod Lists
mod Meeting
mod Telling
mod Steps
mod Walking
mod OwnScopes
mod Example
