mod Results
mod Differ
mod Grown
mod Columns
