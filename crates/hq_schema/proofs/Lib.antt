mod Lists
mod FirstPlace
