mod GrantedAlike
mod Joins
mod Requests
mod RootFields
mod SortCounts
mod Views
